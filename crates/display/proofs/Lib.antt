pub mod PartLaws
pub mod DisplayLaws
pub mod ListLaws
pub mod PromiseLaws
