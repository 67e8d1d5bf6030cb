pub mod ContentLaws
pub mod UseLaws
pub mod WrapperLaws
