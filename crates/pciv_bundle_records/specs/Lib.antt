pub mod Records
pub mod RecordList
