pub mod Code
pub mod Machine
pub mod Words
pub mod Shapes
pub mod Views
pub mod Rising
