pub mod Blocked
pub mod Joining
