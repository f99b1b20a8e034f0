pub mod Runs
pub mod RowEvents
pub mod Counts
pub mod Within
pub mod Earliest
