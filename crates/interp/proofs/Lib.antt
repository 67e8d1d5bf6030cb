pub mod Advance
pub mod Area
pub mod Happens
pub mod Mapped
pub mod Quiet
pub mod Recorded
pub mod Spmd
pub mod Started
