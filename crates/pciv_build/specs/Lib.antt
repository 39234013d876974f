pub mod Build
pub mod Entries
pub mod Slots
