pub mod DraftLaws
pub mod LineLaws
pub mod MemoryLaws
pub mod ReplyLaws
pub mod SoundStarts
pub mod TextLaws
