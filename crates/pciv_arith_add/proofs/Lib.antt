pub mod AddendLaws
pub mod BytesLaws
pub mod LargeLaws
pub mod PutLaws
