pub mod Weigh
pub mod Figure
