pub mod Numbers
pub mod Entries
pub mod Reading
pub mod Walks
