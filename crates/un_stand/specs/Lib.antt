pub mod Engines
pub mod Rooms
