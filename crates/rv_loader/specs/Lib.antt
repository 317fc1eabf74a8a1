pub use Rattle.isa_model.specs.Limits
pub use Rattle.core_model.specs.Loaded
pub mod Memory
pub mod Coding
pub mod Refusals
pub mod Loading
pub mod Valid
