pub mod EntryLaws
pub mod UnbuiltLaws
