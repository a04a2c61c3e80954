pub mod Bounds
pub mod Emitted
pub mod OfSource
