pub mod AlikeSteps
pub mod AlikeCores
pub mod Laws
