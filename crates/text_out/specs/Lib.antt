pub mod AroundBytes
pub mod Drafts
pub mod EntrySteps
pub mod Writes
