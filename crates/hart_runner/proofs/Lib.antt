-- Coarse runs along a legal order: what is kept, and how many entries there are.
pub mod LegalRuns
-- One turn of a hart: its own steps, the action they come to, and what it leaves.
pub mod Actions
pub mod OneTurn
-- As a worker has it.
pub mod Turned
pub mod Booted
-- Places.
pub mod Lookups
-- What all workers leave.
pub mod Pushed
pub mod Sums
pub mod Left
pub mod Over
