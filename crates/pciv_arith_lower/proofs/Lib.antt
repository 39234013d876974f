pub mod LoweredLaws
