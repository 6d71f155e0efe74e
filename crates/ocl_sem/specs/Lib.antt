pub mod Settings
pub mod Source
pub mod Items
pub mod Views
pub mod Launched
pub mod LaunchViews
pub mod Spending
