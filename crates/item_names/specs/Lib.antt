pub mod Parts
pub mod Repeated
pub mod Headings
pub mod Circles
pub mod Items
