pub mod Appends
pub mod Rising
pub mod Scoped
pub mod Sweeping
