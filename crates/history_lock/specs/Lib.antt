pub mod Answers
pub mod History
pub mod Lock
pub mod Passes
pub mod Turns
