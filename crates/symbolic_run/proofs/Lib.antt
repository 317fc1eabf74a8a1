-- What abstract cells say of cells: of lists of them, of their writes, and said more weakly.
pub mod OneWrite
pub mod Denoted
pub mod Writes
pub mod WritesKeepStates
pub mod KnownNumbers
-- An instruction that goes on to the next word does what its abstract effect says, form by form.
pub mod Flows
pub mod Rows
pub mod Followed
pub mod Reach
pub mod Reached
pub mod PlainForms
pub mod ScratchForms
pub mod WordForms
pub mod Plain
-- And so does each other instruction of a path: jumps and branches, CSRs, and ports.
pub mod NextIndex
pub mod BranchesTaken
pub mod CsrReadsTaken
pub mod CsrWritesTaken
pub mod PortsReached
pub mod PortLoadsTaken
pub mod PortStoresPass
pub mod EndCodes
pub mod PortStoresTaken
pub mod StepsTaken
-- Ways of a hart, and where a path leads it.
pub mod Ways
pub mod PathSays
pub mod StepWalk
pub mod StepModes
pub mod AfterStep
pub mod PathParts
pub mod Paths
pub mod Stand
pub mod ComputedPaths
-- Runs of a kernel's part, whose words are straight.
pub mod PartSteps
pub mod PartRuns
pub mod StraightRuns
-- Examples.
mod TryRoutines
mod TrySymbolicPath
