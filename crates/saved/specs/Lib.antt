pub mod Saved
pub mod Witness
pub mod Proved
