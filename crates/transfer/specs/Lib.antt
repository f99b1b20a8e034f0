pub mod Choice
pub mod Changes
pub mod Copied
pub mod Rows
pub mod Lent
pub mod Promises
