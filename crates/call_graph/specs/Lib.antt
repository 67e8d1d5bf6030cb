pub mod Graphs
pub mod Nested
pub mod Targets
