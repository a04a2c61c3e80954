pub mod FinishLemmas
pub mod Paths
pub mod RouteLemmas
pub mod StandLemmas
