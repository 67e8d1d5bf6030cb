pub mod Behind
pub mod Lines
pub mod LiteralSteps
pub mod Places
pub mod Steps
pub mod Trims
pub mod Whole
