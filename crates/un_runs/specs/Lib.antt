pub mod Grammars
pub mod Inputs
pub mod Refusals
pub mod Shown
