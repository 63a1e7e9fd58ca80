pub mod FaultLaws
pub mod MemoryLaws
pub mod SinkLaws
pub mod SourceLaws
