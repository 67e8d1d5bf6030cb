pub mod AnswerLaws
pub mod GraphLaws
pub mod ListLaws
pub mod NameLaws
pub mod NestedLaws
pub mod SideLaws
