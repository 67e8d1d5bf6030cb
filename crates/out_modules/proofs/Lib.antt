pub mod Outputs
pub mod Crosses
