pub mod Choices
pub mod Returns
pub mod Runs
