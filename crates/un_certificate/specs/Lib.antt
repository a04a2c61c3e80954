pub mod Bounds
pub mod Certificates
pub mod Joints
pub mod ModelLaws
pub mod Posted
