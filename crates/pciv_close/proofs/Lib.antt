pub mod CloseLaws
pub mod SoundLaws
pub mod CloseOutcomeLaws
