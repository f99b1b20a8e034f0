pub mod Sizes
pub mod Weeks
pub mod Sound
pub mod Steps
