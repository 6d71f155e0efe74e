pub mod Addresses
pub mod Launching
pub mod Blocks
pub mod Located
pub mod Laws
