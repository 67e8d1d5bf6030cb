pub mod Example
pub mod Quiet
pub mod Refines
