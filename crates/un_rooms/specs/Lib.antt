pub mod Calls
pub mod Demands
pub mod Gathered
pub mod Marked
pub mod Reach
pub mod Twos
pub mod Waits
