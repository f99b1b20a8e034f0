pub mod SameLaws
pub mod ListedLaws
