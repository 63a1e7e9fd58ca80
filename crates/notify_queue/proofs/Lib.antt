pub mod DueLaws
pub mod LogLemmas
pub mod PartLaws
pub mod QuietLaws
pub mod Walks
