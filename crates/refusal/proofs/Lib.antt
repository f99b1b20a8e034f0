pub mod FirstLaws
pub mod ValueLaws
