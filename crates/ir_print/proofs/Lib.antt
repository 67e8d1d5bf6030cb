pub mod Bodies
pub mod Signed
