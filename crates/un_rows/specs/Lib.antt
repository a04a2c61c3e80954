pub mod Drafts
pub mod Kept
pub mod Roles
pub mod Rows
