pub mod Entries
pub mod Idle
pub mod Orders
pub mod Ranges
