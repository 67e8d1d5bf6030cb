pub mod Bytes
pub mod Kept
pub mod Told
