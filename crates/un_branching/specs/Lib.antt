pub mod Growths
pub mod Queues
pub mod Searched
pub mod Searching
