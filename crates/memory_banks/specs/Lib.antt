pub mod Entries
pub mod Rule
pub mod Ports
pub mod Buses
