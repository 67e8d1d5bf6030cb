pub mod Kept
pub mod Tables
pub mod Least
pub mod Laws
pub mod Repeated
