pub mod LineNames
pub mod Pieces
pub mod Shapes
pub mod Tokens
pub mod Words
