pub mod EventLaws
pub mod JoinLaws
pub mod StandLaws
