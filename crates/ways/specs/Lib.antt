pub mod Rides
pub mod Images
pub mod Routes
