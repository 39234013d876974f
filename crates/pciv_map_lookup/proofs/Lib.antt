pub mod SearchLaws
pub mod LookupLaws
pub mod EightLaws
pub mod WaitLaws
