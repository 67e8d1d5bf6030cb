pub mod Captured
pub mod Forks
pub mod Published
pub mod Words
