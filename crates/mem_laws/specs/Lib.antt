pub mod StepLaws
pub mod RegionLaws
