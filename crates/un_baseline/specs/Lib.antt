pub mod Plans
pub mod RoomyOptions
pub mod SpilledCost
pub mod SpillEverywhere
