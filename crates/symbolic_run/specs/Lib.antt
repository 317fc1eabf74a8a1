pub mod AbstractCell
pub mod AbstractEffect
pub mod AbstractRun
pub mod Concretization
pub mod Writes
pub mod SymbolicPath
pub mod Ways
pub mod Laws
