pub mod Counts
pub mod Pairs
pub mod Extremes
