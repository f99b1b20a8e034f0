pub mod SearchesLaws
pub mod BestLaws
