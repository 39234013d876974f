pub mod Pair
pub mod Length
