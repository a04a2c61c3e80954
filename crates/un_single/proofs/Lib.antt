pub mod Edges
pub mod Tabled
