pub mod EffectLaws
pub mod CallLaws
