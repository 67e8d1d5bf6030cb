pub mod Assigned
pub mod Frames
pub mod Held
pub mod Stacks
pub mod Ends
pub mod Makes
