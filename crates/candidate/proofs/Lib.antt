pub mod PutLaws
pub mod StepLaws
pub mod TurnLaws
pub mod OfferLaws
pub mod PassedLaws
pub mod FromLaws
