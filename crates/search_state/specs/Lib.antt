pub mod Layout
pub mod View
