pub mod Fresh
pub mod Machine
pub mod Modules
pub mod Numbered
