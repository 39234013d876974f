pub mod DisparityLaws
pub mod FrameLaws
pub mod CountLaws
pub mod Disparities
pub mod DisparityCases
