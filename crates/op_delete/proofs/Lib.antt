pub mod CloseLaws
pub mod DispositionLaws
pub mod EndLaws
pub mod LeaveLaws
pub mod ListLaws
