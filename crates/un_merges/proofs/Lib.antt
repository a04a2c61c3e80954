pub mod Lowering
pub mod Merging
pub mod NoMergePins
pub mod Passes
pub mod Pins
