pub mod Commas
pub mod SameFunction
mod ExtendValues
pub mod NameBounds
pub mod FunctionFacts
mod SourceRows
pub mod TextLoops
pub mod SourceFacts
pub mod GoodOps
