pub mod LedLaws
pub mod CombineLaws
pub mod MendLaws
pub mod JointLaws
pub mod BothLaws
