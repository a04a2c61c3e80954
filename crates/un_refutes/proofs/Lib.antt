pub mod JudgeLemmas
pub mod Refutes
pub mod ShortLaws
pub mod TreeLemmas
pub mod VerdictLemmas
pub mod VerdictPins
pub mod WalkLemmas
