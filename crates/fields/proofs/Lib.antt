pub mod NumberLaws
pub mod LayoutLaws
pub mod KindLaws
