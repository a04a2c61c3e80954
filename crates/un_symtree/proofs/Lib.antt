pub mod SymLines
pub mod SymTrees
