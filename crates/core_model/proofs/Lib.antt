-- Actions of a board, and tasks at boot.
pub mod Lists
pub mod ReadyLists
pub mod Counts
pub mod BandsInOrder
pub mod Conservation
-- Examples, and runs as events.
mod TryBoard
mod TryKernelWords
mod TryRun
mod TryCore
mod TryOrders
mod TryExplained
mod TryLowEquivalence
mod TryLastPc
mod TrySoundness
mod Runs
