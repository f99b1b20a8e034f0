pub mod Constants
pub mod Reach
pub mod Range
pub mod Symmetric
pub mod Cosine
pub mod Meridian
pub mod SameKeys
pub mod Placed
