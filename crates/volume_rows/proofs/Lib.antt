pub mod ChangeLemmas
pub mod FileLemmas
