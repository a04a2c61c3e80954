pub mod DrawLaws
pub mod GenBlocks
pub mod GenLive
pub mod GenLoops
pub mod GenNames
pub mod GenOps
pub mod GenWell
