pub mod WriteOutcomeLaws
