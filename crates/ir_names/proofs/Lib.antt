pub mod KeptLaws
pub mod ListLaws
pub mod BranchLaws
pub mod PhiLaws
pub mod BlockLaws
