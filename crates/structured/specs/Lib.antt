pub mod Source
pub mod Ready
pub mod Passes
pub mod Laws
