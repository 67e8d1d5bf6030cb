pub mod Events
pub mod Teams
pub mod Starts
