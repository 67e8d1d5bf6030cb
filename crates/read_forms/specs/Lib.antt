pub mod Read
pub mod Widths
pub mod Operands
pub mod Unescaped
pub mod Forms
pub mod Seen
