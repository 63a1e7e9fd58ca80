pub mod HistoryLaws
pub mod SeesLaws
pub mod WaitLaws
