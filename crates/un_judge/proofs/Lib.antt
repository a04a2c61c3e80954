pub mod Comings
pub mod Spellings
pub mod Takings
pub mod Walkings
