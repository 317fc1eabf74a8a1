pub mod Mixtures
mod TryWhy
pub mod WhyTells
pub mod PmpLaws
pub mod DecodedRegisters
pub mod UserEffects
pub mod EffectShapes
pub mod UserWrites
pub mod PlacesHaveLatches
pub mod UserStepIsAlone
pub mod UserWritesOwn
pub mod UserStepWrites
pub mod WedgesExactly
mod TryCsrs
mod TryPmp
mod SmallTask
mod TryContext
mod TryPorts
mod TryHartState
mod TryUserStep
mod TryMachineStep
mod TryHartStep
mod TryUserLaws
