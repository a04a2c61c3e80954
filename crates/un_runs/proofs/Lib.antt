pub mod FrontLaws
pub mod InputLaws
pub mod OneAnswer
pub mod RunLaws
pub mod StartLaws
