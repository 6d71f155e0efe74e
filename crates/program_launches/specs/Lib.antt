pub mod Launches
pub mod Files
pub mod Laws
