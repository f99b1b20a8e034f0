pub mod TestLaws
pub mod FindLaws
pub mod ChangeLaws
