pub mod Room
pub mod Walks
