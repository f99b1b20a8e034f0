pub mod Points
pub mod Products
pub mod Decoding
pub mod Fronts
pub mod Stream
pub mod Words
pub mod Names
pub mod Ascii
