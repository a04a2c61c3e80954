pub mod Exchanged
pub mod Mirrors
pub mod Shortened
pub mod Works
