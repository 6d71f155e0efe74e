pub mod GroupRuns
pub mod MachineRuns
pub mod Works
pub mod Joins
pub mod Starts
pub mod Rooms
pub mod Seats
