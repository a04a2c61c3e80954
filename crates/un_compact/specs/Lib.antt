pub mod Compacted
pub mod Retimed
pub mod Squeezes
