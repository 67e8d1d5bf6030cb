pub mod EndLaws
pub mod ExitLaws
pub mod KernelLaws
pub mod OpeningLaws
pub mod OwnLaws
