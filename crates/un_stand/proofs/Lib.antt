pub mod JumpLemmas
pub mod LevelLemmas
pub mod ModelRooms
pub mod RoomLemmas
