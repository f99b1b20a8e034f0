pub mod PlaceLaws
pub mod KeptLaws
