pub mod SlotsUsed
pub mod OneEntry
pub mod Quiet
pub mod OneHart
pub mod Stopping
