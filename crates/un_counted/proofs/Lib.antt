pub mod Looser
mod Past
