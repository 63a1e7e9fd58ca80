pub mod ByteLaws
pub mod PageLaws
pub mod StreamLaws
