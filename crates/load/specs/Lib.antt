pub mod Load
pub mod Steps
pub mod FillStep
pub mod Sound
pub mod Table
pub mod Clock
