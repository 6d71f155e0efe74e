mod WorkedCode
mod WorkedMeasures
mod WorkedTypes
pub mod Rows
pub mod Putting
pub mod RunLaws
pub mod JumpLaws
pub mod LoopLaws
pub mod TypingLaws
