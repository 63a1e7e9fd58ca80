pub mod Homes
pub mod State
pub mod Tables
