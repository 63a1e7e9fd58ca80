pub mod Breaks
pub mod CallIndex
pub mod Calls
pub mod Ends
pub mod Marks
pub mod Oplocks
pub mod Told
