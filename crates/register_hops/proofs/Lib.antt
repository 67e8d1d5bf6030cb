pub mod PlacedLaws
pub mod SearchLaws
pub mod NodeLaws
pub mod MadeLaws
mod HopLaws
