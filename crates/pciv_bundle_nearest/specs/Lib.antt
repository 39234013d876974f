pub mod Nearest
pub mod Passes
