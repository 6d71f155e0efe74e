pub mod Apart
pub mod BareLines
pub mod Carrying
