pub mod BlocksLaws
pub mod ExtremesLaws
