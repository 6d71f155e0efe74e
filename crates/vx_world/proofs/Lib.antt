pub mod SourceBytes
pub mod WritingLemmas
