pub mod Faults
pub mod MemorySink
pub mod MemorySource
pub mod Sink
pub mod Source
pub mod StdSink
pub mod StdSource
