pub mod Journeys
pub mod List
pub mod Queries
pub mod Verdicts
pub mod Written
pub mod Append
pub mod Displays
