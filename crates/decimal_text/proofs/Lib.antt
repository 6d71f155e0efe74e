pub mod DecimalTexts
