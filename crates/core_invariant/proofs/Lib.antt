-- Lists.
pub mod Items
-- The run alone of a task, its output and its end; and cells that are a task's own.
pub mod AloneNext
pub mod AloneEnds
pub mod AloneServices
pub mod AloneOutputs
pub mod OwnCells
pub mod KernelCells
pub mod Numbered
-- Steps of a hart in user mode.
pub mod UserStands
pub mod UserTruth
pub mod UserAfter
pub mod UserTraps
pub mod UserFaults
pub mod UserGoesOn
pub mod UserSteps
-- From a trap through the save part and along a path of the middle.
pub mod TakenStands
pub mod Trapped
pub mod PartLeads
pub mod PartModes
pub mod Saved
pub mod PathStates
pub mod ReadyPaths
pub mod TrapEnds
-- To the give of a ready context.
pub mod ReadyContext
pub mod ReadyEnd
pub mod ReadyTimer
pub mod ReadyCalls
pub mod ReadyYield
pub mod ReadyOut
pub mod GivenSlot
pub mod ReadyIn
-- To the give of an ended task.
pub mod EndedCases
pub mod DonePaths
pub mod DoneEnds
pub mod DoneLeads
-- Harts without anything of a task in their latches: at the gives, at the take, and in the idle loop.
pub mod PublicWrites
pub mod Waiting
pub mod Gives
pub mod Idle
pub mod Takes
-- From a take through the restore part back into user mode.
pub mod TakenPath
pub mod Returns
-- Words that save and words that restore; the kernel's own do, and its code is a kernel.
pub mod PartSaves
pub mod PartRestores
pub mod OwnParts
pub mod EmittedKernel
-- How many entries a step and an event make.
pub mod FewEntries
-- What each hart does, whatever the others do.
pub mod QueueAnswers
pub mod AtStart
pub mod AtActions
pub mod EachHart
-- What each event keeps of a board and of a core.
pub mod StartWords
pub mod Admits
pub mod Boards
pub mod Composition
pub mod Boot
pub mod Events
-- What follows of a core that is kept: outputs, homes, counts, and what a hart may do.
pub mod HeldOutputs
pub mod CoreOutputs
pub mod CountFits
pub mod Homes
pub mod OneHome
pub mod OutFits
pub mod Actions
-- The two bands of ready tasks.
pub mod BandsFirst
-- The laws.
pub mod FromHarts
pub mod Proved
-- Examples.
mod TryStates
mod TryCores
mod TryBands
mod TryParts
