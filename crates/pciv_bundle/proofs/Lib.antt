pub mod Bundles
pub mod BundleCases
pub mod Accepted
pub mod Skips
pub mod BundleBytesLaws
pub mod BundleCaseLaws
