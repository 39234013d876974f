pub mod TransposeLaws
pub mod GatherLaws
pub mod WordLaws
pub mod FlipLaws
