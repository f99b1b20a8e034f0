pub mod DecimalLaws
pub mod RideLaws
pub mod LineLaws
pub mod MarkedLaws
