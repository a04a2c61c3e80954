pub mod Allowed
pub mod Found
pub mod Full
pub mod Keeping
pub mod Rules
pub mod Words
