pub mod ActLaws
pub mod Going
pub mod IdleLanes
pub mod StepLaws
