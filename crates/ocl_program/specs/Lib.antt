pub mod Nodes
pub mod Shapes
pub mod Values
pub mod Measures
