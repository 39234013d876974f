pub mod CeilLaws
