pub mod KeptLaws
pub mod MaskedLaws
