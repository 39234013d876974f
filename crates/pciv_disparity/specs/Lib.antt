pub mod Disparity
pub mod Frames
