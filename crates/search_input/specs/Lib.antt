pub mod Layout
pub mod Feed
