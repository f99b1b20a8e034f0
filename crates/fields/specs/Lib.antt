pub mod Numbers
pub mod Layout
pub mod Records
pub mod Second
pub mod Kind
