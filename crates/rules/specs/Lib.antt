pub mod Sizes
pub mod Rules
pub mod Sound
