pub mod Finished
pub mod Routes
pub mod Stands
pub mod Turns
