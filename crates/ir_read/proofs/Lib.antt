pub mod Begun
pub mod Digits
pub mod Ends
pub mod Least
pub mod Split
pub mod Tried
pub mod Texts
