pub mod Plain
pub mod Blocks
pub mod Layout
pub mod Alone
pub mod Keeping
pub mod Views
pub mod Laws
