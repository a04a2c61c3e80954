pub mod Fitting
pub mod Meeting
pub mod Walks
pub mod Whole
