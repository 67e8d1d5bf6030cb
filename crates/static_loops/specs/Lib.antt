pub mod Shares
pub mod Starts
