mod WorkedItems
mod WorkedCosts
pub mod Unfolding
pub mod StatementLaws
pub mod InArrays
pub mod SmallLaunch
