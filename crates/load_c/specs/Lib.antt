pub mod Best
pub mod Searches
