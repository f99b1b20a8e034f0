pub mod Kept
pub mod Keeps
