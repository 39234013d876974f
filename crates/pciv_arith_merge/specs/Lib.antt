pub mod Merge
pub mod Joint
