pub mod Values
pub mod Fresh
pub mod Pads
pub mod Puts
