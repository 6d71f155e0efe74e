pub mod Ranges
pub mod WordItems
pub mod Limits
pub mod Lanes
