pub mod Least
pub mod LeastLaws
