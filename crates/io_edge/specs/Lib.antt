pub mod Causes
pub mod Gone
pub mod InMemory
pub mod OverStd
pub mod Whole
