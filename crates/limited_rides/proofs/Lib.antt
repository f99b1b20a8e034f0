pub mod RunLaws
pub mod TurnLaws
pub mod CountLaws
pub mod WithinLaws
pub mod MadeLaws
pub mod EventRowLaws
pub mod DueLaws
