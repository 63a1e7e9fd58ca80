pub mod Pages
pub mod Streams
