pub mod NumberLaws
pub mod FieldLaws
pub mod MaskLaws
pub mod ValueLaws
pub mod WorkedValues
