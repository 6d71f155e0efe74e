pub mod Worked
pub mod WorkedLoop
