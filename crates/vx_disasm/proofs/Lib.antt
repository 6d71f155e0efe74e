pub mod PrintedLengths
pub mod PrintedLines
pub mod PrintedNumbers
pub mod PrintedParts
pub mod PrintedRows
pub mod PrintedTexts
