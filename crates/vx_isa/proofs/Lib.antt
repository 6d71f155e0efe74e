mod WorkedWarps
pub mod MaskLaws
pub mod RowLaws
pub mod WarpLaws
pub mod WordLaws
pub mod WorkedWords
