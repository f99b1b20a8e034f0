pub mod Again
pub mod Causes
pub mod Claims
