pub mod Calls
pub mod ClientHistory
pub mod Desks
pub mod Serving
