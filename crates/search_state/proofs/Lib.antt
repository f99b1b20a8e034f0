pub mod RowLaws
pub mod ViewLaws
