pub mod Put
pub mod Bytes
