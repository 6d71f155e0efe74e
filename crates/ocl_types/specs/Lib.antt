pub mod Names
pub mod Exprs
pub mod Stmts
pub mod Functions
pub mod Tables
pub mod Answers
pub mod Results
