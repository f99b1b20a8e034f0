pub mod File
pub mod Wrote
pub mod Claims
pub mod Options
