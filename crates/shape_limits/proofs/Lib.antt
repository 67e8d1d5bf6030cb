pub mod LimitLaws
pub mod SizeLaws
