pub mod Views
pub mod Launched
pub mod Launches
