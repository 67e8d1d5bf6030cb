pub mod InstLaws
pub mod KernelLaws
