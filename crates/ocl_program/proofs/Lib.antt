pub mod WorkedMeasures
pub mod Rows
