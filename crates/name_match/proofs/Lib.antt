pub mod BeginningLaws
pub mod DeadLaws
mod MatchExamples
pub mod MatchLaws
pub mod RowLaws
