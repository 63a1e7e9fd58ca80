pub mod PendingQueue
pub mod Lists
pub mod Waits
