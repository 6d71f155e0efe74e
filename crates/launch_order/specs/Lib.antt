pub mod Events
pub mod Cores
pub mod Lists
pub mod Moves
pub mod Worked
