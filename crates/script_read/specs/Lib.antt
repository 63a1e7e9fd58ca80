pub mod LineView
pub mod Marks
pub mod ReadingView
pub mod ReadsAs
pub mod ScriptView
pub mod StageView
