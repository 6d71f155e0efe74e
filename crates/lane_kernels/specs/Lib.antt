pub mod Source
pub mod Sizes
pub mod Accesses
pub mod Passes
