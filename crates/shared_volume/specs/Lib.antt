pub mod Engines
pub mod Histories
pub mod Later
pub mod Shared
