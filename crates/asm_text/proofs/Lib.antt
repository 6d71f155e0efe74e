pub mod LineLaws
pub mod HexLaws
pub mod Worked
