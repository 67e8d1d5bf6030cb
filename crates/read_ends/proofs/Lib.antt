pub mod Closed
pub mod EndLaws
