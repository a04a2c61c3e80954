pub mod Goods
pub mod Reaches
pub mod Rounds
pub mod Stuck
pub mod Vars
pub mod Walks
