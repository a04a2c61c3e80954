pub mod Carried
pub mod Going
