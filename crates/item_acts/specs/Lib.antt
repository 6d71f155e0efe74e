pub mod Machine
pub mod Launches
pub mod Tame
pub mod Examples
pub mod OneResult
pub mod Worlds
pub mod LeastRace
pub mod SmallCodes
