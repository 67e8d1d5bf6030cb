pub mod Runs
pub mod Known
pub mod Rows
