pub mod GroupLaws
pub mod RefusedLaws
