pub mod ChainLaws
pub mod Lists
pub mod Spreads
pub mod Searching
pub mod Added
