pub mod ChildLaws
pub mod RoundLaws
pub mod RunLaws
pub mod WakeLaws
pub mod WaitLaws
