pub mod Listed
pub mod Lowered
pub mod PartPostings
pub mod PartPosts
pub mod Parts
pub mod Postable
pub mod Posts
pub mod Strength
