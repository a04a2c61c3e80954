pub mod Arcs
pub mod Choices
pub mod Lengths
pub mod Plain
pub mod Relaxations
pub mod Timings
pub mod Readers
