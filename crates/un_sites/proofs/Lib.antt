pub mod Appends
pub mod CallPins
pub mod Carrying
pub mod Chaining
pub mod Parts
