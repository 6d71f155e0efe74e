pub mod Loops
pub mod Operators
pub mod Tasks
pub mod Views
pub mod Rising
