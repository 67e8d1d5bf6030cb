pub mod Laid
pub mod Table
pub mod Named
pub mod Walk
pub mod Laws
pub mod Names
pub mod Indexed
