pub mod Names
pub mod Words
pub mod WordForms
pub mod Commands
