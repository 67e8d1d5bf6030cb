pub mod Answer
pub mod Optimised
pub mod Replay
pub mod ReplayStages
