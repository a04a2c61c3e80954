pub mod Causes
pub mod Memory
pub mod Pace
pub mod Statuses
