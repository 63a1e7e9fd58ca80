pub mod Charges
pub mod Counters
pub mod Counts
pub mod Held
