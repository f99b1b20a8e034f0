pub mod RemovalLaws
pub mod LeftLaws
pub mod BackLaws
pub mod ShownLaws
pub mod LastLaws
