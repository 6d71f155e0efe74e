pub mod BlockLaws
pub mod CountingLaws
pub mod ItemLaws
pub mod LoanLaws
pub mod OutcomeLaws
pub mod RunLaws
pub mod SetLaws
pub mod WarpLaws
