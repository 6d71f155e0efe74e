pub mod Effects
pub mod Operands
pub mod Rows
pub mod WarpSteps
pub mod Warps
pub mod Words
