pub mod Decimal
pub mod Lines
pub mod Marked
pub mod Rides
