pub mod Alloc
pub mod Commands
pub mod Generate
pub mod Places
pub mod Settings
pub mod Steps
