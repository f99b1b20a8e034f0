pub mod PutLaws
pub mod ByteLaws
