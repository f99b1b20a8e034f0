pub mod PermLaws
pub mod FateLaws
pub mod RunLaws
pub mod SearchLaws
pub mod AnyOrderLaws
pub mod ProvisoLaws
pub mod SteppedLaws
