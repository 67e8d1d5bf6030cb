pub mod Accepted
pub mod Sized
