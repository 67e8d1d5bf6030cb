mod GivenLaws
pub mod KnownLaws
mod RootLaws
mod FromLaws
pub mod WholeLaws
mod SideLaws
mod ExactLaws
