pub mod Growth
pub mod Limited
pub mod Margin
pub mod Instances
pub mod Together
