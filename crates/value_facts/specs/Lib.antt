pub mod Effects
pub mod Plain
pub mod Pointers
pub mod Sides
