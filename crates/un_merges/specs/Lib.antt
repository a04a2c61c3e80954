pub mod Lowered
pub mod Merges
