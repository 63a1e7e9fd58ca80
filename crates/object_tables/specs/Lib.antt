pub mod Lends
pub mod LentItem
pub mod Next
pub mod Places
pub mod Series
pub mod Table
