pub mod Laws
pub mod Choosing
pub mod Claims
pub mod Seconds
pub mod AnyOrder
