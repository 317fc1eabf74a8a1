-- One event, and the entries that it makes.
pub mod Named
pub mod OneEvent
-- Entries of an order.
pub mod AsEvents
pub mod OneStep
pub mod Shares
pub mod WholeShares
pub mod OwnSteps
pub mod Reach
pub mod Arrive
pub mod PathArrives
pub mod PartArrives
pub mod TrapArrives
pub mod TimerArrives
pub mod ReturnArrives
pub mod Calm
pub mod UserCounts
pub mod UserReach
pub mod EachTurn
pub mod Entries
pub mod EachPaced
pub mod ReadySums
pub mod Potentials
pub mod Bound
pub mod FewSteps
pub mod LegalOrders
pub mod Stepped
pub mod Judged
pub mod OwnWay
pub mod AlikeActions
pub mod AlikeRuns
-- Examples.
mod TryCoarse
