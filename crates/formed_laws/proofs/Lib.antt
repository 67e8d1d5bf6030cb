pub mod Within
pub mod FormsWithin
pub mod KindsWithin
pub mod InstsWithin
pub mod ItemsWithin
pub mod Reading
