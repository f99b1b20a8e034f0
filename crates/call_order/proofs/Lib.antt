pub mod PassLaws
pub mod Merging
pub mod Neighbours
