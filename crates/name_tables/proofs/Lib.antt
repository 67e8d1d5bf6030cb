pub mod First
pub mod Names
pub mod ConstructLaws
pub mod RefusalLaws
pub mod RepeatedLaws
