pub mod GrowthLaws
pub mod LimitLaws
pub mod MarginLaws
pub mod InstanceLaws
pub mod TogetherLaws
