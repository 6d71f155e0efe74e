pub mod BusRuns
pub mod ByteLaws
pub mod Deeds
pub mod FittingWords
pub mod GroupDeeds
pub mod Mapped
pub mod OwnBytes
