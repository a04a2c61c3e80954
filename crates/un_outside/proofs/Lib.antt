pub mod Pieces
pub mod Paces
pub mod Rows
