pub mod Pacing
pub mod Advancing
pub mod Laws
