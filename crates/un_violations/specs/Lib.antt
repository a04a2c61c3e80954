pub mod Loose
pub mod Marks
pub mod Orders
