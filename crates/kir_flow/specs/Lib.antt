pub mod Flagging
pub mod Views
pub mod Sizes
pub mod WithoutJumps
pub mod Laws
