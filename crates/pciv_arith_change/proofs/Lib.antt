pub mod SignedLaws
pub mod DifferencesLaws
