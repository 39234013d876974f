pub mod RecordsLaws
pub mod SplitLaws
pub mod RecordBytesLaws
pub mod RecordListLaws
pub mod SkippedLaws
