pub mod StopLaws
pub mod RuleLaws
pub mod CallLaws
pub mod FillLaws
pub mod EndLaws
