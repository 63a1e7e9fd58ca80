mod CaseTableLemmas
pub mod OplockLemmas
pub mod PlaceLemmas
pub mod RowLemmas
