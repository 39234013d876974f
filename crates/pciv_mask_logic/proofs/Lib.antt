pub mod LogicLaws
pub mod LogicOutcomeLaws
