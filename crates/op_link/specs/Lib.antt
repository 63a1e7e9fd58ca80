pub mod Calls
pub mod Conditions
