pub mod FramesLaws
pub mod FrameFileLaws
pub mod LentLaws
pub mod RowLaws
