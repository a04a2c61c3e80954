pub mod Causes
pub mod Judging
pub mod Laws
pub mod Seen
pub mod Sound
pub mod Steps
pub mod Verdicts
pub mod Walks
