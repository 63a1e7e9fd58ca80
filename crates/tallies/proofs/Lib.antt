pub mod ClashLemmas
pub mod CountLemmas
pub mod HeldLemmas
mod SharingExamples
