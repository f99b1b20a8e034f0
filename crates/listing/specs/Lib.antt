pub mod Same
pub mod Listed
