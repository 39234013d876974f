pub mod ArithLaws
pub mod SignedDifferenceLaws
pub mod ShiftLaws
