pub mod Parts
pub mod Display
pub mod Queries
pub mod Promises
