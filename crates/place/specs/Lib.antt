pub mod Numbers
pub mod Positions
pub mod Keys
pub mod Near
pub mod Promises
