pub mod Lowered
