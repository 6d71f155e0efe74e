pub mod JumpLaws
pub mod Viewed
