pub mod Ends
pub mod Kernels
pub mod Own
pub mod Seen
