pub mod Spots
pub mod Labels
pub mod Honest
pub mod Constants
pub mod Laws
pub mod Clean
pub mod Accesses
pub mod Opened
