pub mod Contents
pub mod Tables
