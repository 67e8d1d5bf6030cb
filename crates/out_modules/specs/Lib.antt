pub mod Outputs
pub mod OutputKernels
