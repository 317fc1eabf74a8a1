-- One step of a hart under its plan.
pub mod Pacing
pub mod PacedStep
-- The steps up to its action.
pub mod Advanced
-- The laws.
pub mod CanAdvance
