pub mod Count
pub mod Simulation
