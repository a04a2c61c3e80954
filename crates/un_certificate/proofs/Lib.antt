pub mod Lowest
pub mod Lows
pub mod Numbers
pub mod Posting
pub mod Summing
