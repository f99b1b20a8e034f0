pub mod Laws
pub mod Form
pub mod Times
