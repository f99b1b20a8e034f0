pub mod Makes
pub mod Claims
pub mod Instances
