pub mod LabelSets
pub mod Needed
pub mod PacketForms
pub mod PacketReads
pub mod PacketWords
pub mod Reading
