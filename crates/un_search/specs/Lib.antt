pub mod Answers
pub mod Dives
pub mod Looks
pub mod Roots
pub mod Solved
pub mod Stores
