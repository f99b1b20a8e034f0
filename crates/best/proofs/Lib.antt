pub mod TurnLaws
pub mod QueryLaws
pub mod FirstLaws
