pub mod Lookup
pub mod Eight
