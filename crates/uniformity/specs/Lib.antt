pub mod Marks
pub mod Sweeps
pub mod Pairs
pub mod Places
