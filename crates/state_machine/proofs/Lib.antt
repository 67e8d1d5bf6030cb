pub mod Turns
pub mod Frees
pub mod Joins
