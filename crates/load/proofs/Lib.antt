pub mod StepLaws
pub mod SoundLaws
pub mod AnswerLaws
pub mod TableLaws
pub mod ClockLaws
pub mod WeekLaws
pub mod Held
