pub mod View
pub mod EffectView
