pub mod Decimals
pub mod Lines
pub mod LinesLeft
pub mod Names
