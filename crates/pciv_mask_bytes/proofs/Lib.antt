pub mod RowLaws
pub mod SlotLaws
