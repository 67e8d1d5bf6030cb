pub mod Fuel
pub mod RowLaws
pub mod Laws
pub mod Kept
