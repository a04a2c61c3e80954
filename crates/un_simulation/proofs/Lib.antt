pub mod Startable
mod Places
