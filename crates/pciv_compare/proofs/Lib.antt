pub mod WeighLaws
pub mod FigureLaws
