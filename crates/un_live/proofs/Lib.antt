pub mod LiveLaws
pub mod LiveLists
