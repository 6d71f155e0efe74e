pub mod Fitting
pub mod Launches
