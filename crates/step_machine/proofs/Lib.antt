pub mod CostLaws
pub mod AlongLaws
pub mod AlikeLaws
pub mod TurnLaws
pub mod RunLaws
