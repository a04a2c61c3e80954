pub mod Counted
pub mod CountedLaws
