pub mod BeginLemmas
pub mod GiveUpLemmas
pub mod HomeLemmas
pub mod OplockCounts
pub mod SortLemmas
pub mod TableLemmas
