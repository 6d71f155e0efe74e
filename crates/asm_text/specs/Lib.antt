pub mod Lines
pub mod HexLines
pub mod Mnemonics
pub mod AsmLines
pub mod AsmTexts
