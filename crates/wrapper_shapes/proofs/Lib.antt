pub mod ForkLaws
pub mod PathLaws
pub mod RegionLaws
pub mod WalkLaws
