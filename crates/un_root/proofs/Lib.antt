pub mod Eaches
pub mod ModelDomains
pub mod RegisterBounds
