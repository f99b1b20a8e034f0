pub mod CauseLaws
pub mod VerdictLaws
