pub mod Placed
pub mod Nodes
pub mod Hops
pub mod Roots
pub mod Numbered
