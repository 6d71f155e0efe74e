pub mod Warps
pub mod Runs
