pub mod Exchanges
pub mod Interchangeable
