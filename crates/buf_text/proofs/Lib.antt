pub mod HasBytes
pub mod LineLaws
