pub mod Shapes
pub mod Kinds
pub mod Parts
