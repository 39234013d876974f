pub mod Repair
pub mod Applied
