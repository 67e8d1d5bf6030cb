pub mod Probes
pub mod Refused
