pub mod Words
pub mod Bytes
pub mod Lines
pub mod Instances
