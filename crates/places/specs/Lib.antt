pub mod Keys
pub mod Places
pub mod Entries
pub mod Promises
pub mod Instances
