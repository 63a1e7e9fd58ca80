pub mod NameLemmas
pub mod OverwriteLemmas
pub mod PathExamples
