pub mod Uses
pub mod Backs
pub mod Reads
