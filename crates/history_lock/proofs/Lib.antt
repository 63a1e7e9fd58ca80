pub mod Places
pub mod Turning
pub mod Passing
pub mod Joining
pub mod Gathered
