pub mod Ranges
pub mod LittleEndian
pub mod ByteAt
pub mod Any
