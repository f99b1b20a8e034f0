pub mod Calls
pub mod Alike
pub mod AnyOrder
pub mod Proviso
