pub mod FirstBad
pub mod Readings
pub mod Refutations
