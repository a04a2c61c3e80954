pub mod Forms
pub mod Listing
pub mod ListingWords
pub mod Recognized
