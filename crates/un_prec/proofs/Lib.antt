pub mod Ends
pub mod Idle
pub mod InTime
pub mod Looser
