pub use Rattle.core_model.specs.Plans
pub use Rattle.core_model.specs.Events
pub mod Pace
pub mod Tokens
pub mod OrderText
