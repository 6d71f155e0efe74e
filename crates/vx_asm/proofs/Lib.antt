pub mod Digits
pub mod FittingLines
pub mod FittingOperands
pub mod LabelLaws
pub mod ListingLaws
pub mod PartsInTurn
pub mod Prefixes
pub mod TextLaws
