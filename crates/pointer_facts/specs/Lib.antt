pub mod SideHops
pub mod Exact
