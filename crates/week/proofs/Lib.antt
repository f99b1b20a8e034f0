pub mod PlaceLaws
pub mod StepLaws
pub mod SoundLaws
pub mod Held
