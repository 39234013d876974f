pub mod CaseLaws
pub mod ChangeLaws
