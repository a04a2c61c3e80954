pub mod Entry
pub mod Errors
pub mod Functions
pub mod Lines
pub mod Read
