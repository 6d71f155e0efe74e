pub mod Lanes
pub mod Warps
pub mod Premises
pub mod Laws
