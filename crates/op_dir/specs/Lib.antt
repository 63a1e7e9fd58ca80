pub mod Calls
pub mod Filling
pub mod Listing
pub mod Places
