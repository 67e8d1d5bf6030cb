pub mod Goes
pub mod Others
pub mod Puts
pub mod Stores
pub mod Ways
