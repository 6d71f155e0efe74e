pub mod Spans
pub mod Maps
pub mod Blocks
pub mod Lanes
pub mod Located
pub mod Worked
