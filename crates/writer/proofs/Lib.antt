pub mod NumberLaws
pub mod PutLaws
pub mod FileLaws
pub mod ClaimLaws
