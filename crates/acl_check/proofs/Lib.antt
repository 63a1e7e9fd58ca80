mod AccessExamples
pub mod BitLemmas
pub mod FirstEntryLemmas
pub mod GenericLemmas
pub mod LaterEntryLemmas
