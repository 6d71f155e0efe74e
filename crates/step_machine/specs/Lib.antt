pub mod Costs
pub mod Alike
pub mod Sims
pub mod Stacks
pub mod Turns
pub mod Steps
