pub mod ClosureLemmas
pub mod KeyLemmas
pub mod NumberLemmas
pub mod RowLaws
