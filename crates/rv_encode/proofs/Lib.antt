pub mod BitLaws
pub mod DecodeLaws
