pub mod OrderLaws
pub mod PickLaws
