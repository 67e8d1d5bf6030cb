pub mod Actions
pub mod Addresses
pub mod Calls
pub mod Operands
pub mod Phases
pub mod Phis
pub mod Steps
pub mod Runs
