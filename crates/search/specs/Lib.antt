pub mod Timetable
pub mod Joins
pub mod Rows
pub mod Events
pub mod Offered
pub mod Search
pub mod Within
pub mod Marked
