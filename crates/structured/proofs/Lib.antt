pub mod Held
pub mod Asking
pub mod Sizes
pub mod Numbers
pub mod Whole
pub mod Found
