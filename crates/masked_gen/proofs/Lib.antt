pub mod DrawLemmas
pub mod Lines
pub mod Writable
mod TrySeeds
