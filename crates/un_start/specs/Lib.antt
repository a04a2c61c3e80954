pub mod Drafts
pub mod Lines
pub mod Places
pub mod StartTexts
