pub mod Composing
pub mod Settings
pub mod Clean
pub mod Whole
