pub mod Runs
pub mod Spelling
pub mod Decides
pub mod Paces
