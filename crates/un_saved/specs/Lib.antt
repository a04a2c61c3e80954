pub mod Joined
pub mod Names
pub mod Owed
pub mod Reads
pub mod Saved
pub mod Standing
