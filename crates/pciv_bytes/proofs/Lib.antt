pub mod RangesLaws
pub mod PositionsLaws
pub mod SumLaws
pub mod JoinedLaws
pub mod LittleEndianLaws
pub mod WriteLaws
pub mod AnyLaws
