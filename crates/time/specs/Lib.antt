pub mod Text
pub mod Hours
pub mod Promises
