pub mod Checking
pub mod Conditions
pub mod Locals
pub mod Refusals
pub mod Spaces
pub mod Words
