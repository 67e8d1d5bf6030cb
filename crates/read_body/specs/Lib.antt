pub mod Rows
pub mod Body
pub mod Seen
