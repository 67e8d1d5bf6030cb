pub mod TurnLaws
pub mod NameLaws
pub mod RunLaws
