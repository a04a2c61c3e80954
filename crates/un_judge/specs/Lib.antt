pub mod Judged
pub mod Leaves
pub mod Lines
pub mod Walks
