pub mod Held
pub mod SoundLaws
