pub mod Sweeping
pub mod Visits
pub mod Sections
pub mod Agreeing
pub mod Reaching
pub mod Law
pub mod WorkedMarks
pub mod Standing
