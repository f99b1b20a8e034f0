pub mod Shares
pub mod Promises
