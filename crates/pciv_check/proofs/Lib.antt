pub mod RefusalLaws
pub mod PairLaws
pub mod SoundPairLaws
