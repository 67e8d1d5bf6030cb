pub mod Lines
pub mod Judging
pub mod Verdicts
