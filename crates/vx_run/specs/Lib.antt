pub mod Lines
pub mod Delivery
pub mod Output
pub mod Answers
pub mod Stages
pub mod Layout
pub mod Meets
