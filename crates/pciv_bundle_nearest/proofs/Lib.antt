pub mod NearestLaws
pub mod ChangedLaws
pub mod BlockLaws
pub mod LoweredLaws
pub mod PassesLaws
