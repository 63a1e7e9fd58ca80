pub mod LimitLaws
pub mod OrderLaws
pub mod RaceLaws
pub mod RunLaws
pub mod ShownLaws
pub mod SummaryLaws
