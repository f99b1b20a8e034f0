pub mod WordLaws
pub mod ByteLaws
pub mod LineLaws
pub mod InstanceLaws
