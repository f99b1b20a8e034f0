pub mod Groups
pub mod Refused
