pub mod BeginningLemmas
pub mod ChildLemmas
pub mod EntryLaws
pub mod HeadLemmas
pub mod KeyLaws
pub mod NameLemmas
