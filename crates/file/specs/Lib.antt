pub mod Record
pub mod Kinds
pub mod File
pub mod Handed
pub mod Framed
pub mod Answered
pub mod Minutes
