pub mod Tests
pub mod Find
pub mod Legs
pub mod Ends
pub mod Changes
