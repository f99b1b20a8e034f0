pub mod RecordsLaws
pub mod PaperLaws
pub mod PrintedLaws
pub mod BoundLaws
pub mod TutorLaws
pub mod WitnessLaws
