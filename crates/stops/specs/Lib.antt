pub mod Sizes
pub mod Texts
pub mod Stops
pub mod Answer
pub mod Taken
pub mod Sound
