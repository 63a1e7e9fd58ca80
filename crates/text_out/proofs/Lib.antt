pub mod BodyLaws
mod DigitLaws
pub mod EntryLaws
pub mod GatherLaws
mod PartLaws
