pub mod EntryBitsLaws
pub mod SelectLaws
