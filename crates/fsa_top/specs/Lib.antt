pub mod Limits
pub mod Order
pub mod Progress
pub mod Promised
pub mod Runs
pub mod ShownTurns
pub mod Summaries
pub mod Words
