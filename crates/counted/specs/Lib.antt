pub mod Events
pub mod Joins
