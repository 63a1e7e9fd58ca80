pub mod Lists
pub mod Passes
pub mod Races
pub mod Runners
pub mod Tasks
