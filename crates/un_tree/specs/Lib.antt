pub mod Boxes
pub mod Covered
pub mod Parts
pub mod Reading
pub mod Searched
pub mod Splits
pub mod Texts
pub mod Waits
