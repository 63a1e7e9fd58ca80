pub mod Beginnings
pub mod Directory
pub mod Heads
pub mod Keyed
