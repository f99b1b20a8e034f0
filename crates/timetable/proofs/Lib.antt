pub mod JourneyLaws
pub mod ListLaws
pub mod QueryLaws
pub mod WithinLaws
pub mod VerdictLaws
pub mod RoomLaws
pub mod AppendLaws
pub mod GroupLaws
