pub mod SymVerdicts
pub mod SymWalks
