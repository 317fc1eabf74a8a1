pub mod CellsAlike
pub mod CellsHarts
pub mod CellsWrites
pub mod MachineRows
pub mod MachineForms
pub mod MachineCsrs
pub mod MachinePorts
pub mod MachineReach
pub mod MachineFollows
pub mod MachineAlike
pub mod UserCsrs
pub mod UserTraps
pub mod UserAlike
pub mod ControlItems
pub mod ControlRows
pub mod ControlEffects
-- What is related place by place.
pub mod Pairs
-- Boards and cores that are alike, after every event.
pub mod AlikeBoards
pub mod AlikeCores
-- Ways of two harts.
pub mod BothWays
pub mod BothStarts
-- Two harts along paths of the same instructions and answers.
pub mod EndsStay
pub mod PathDecides
pub mod BothPaths
pub mod BothLead
-- Ways of two harts through the kernel's code.
pub mod BothEnds
pub mod BothRuns
pub mod BothTraps
pub mod BothReady
pub mod BothDone
pub mod BothCalls
pub mod BothOutcomes
pub mod BothSteps
pub mod BothAnswers
pub mod BothTaken
pub mod BothStand
-- Words that save and words that restore, and the kernel's own.
pub mod PartsAlike
pub mod EmittedAlike
