pub mod Accesses
pub mod Carriers
pub mod PressureLaws
pub mod Pressures
pub mod Searches
