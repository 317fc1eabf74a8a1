pub mod Bits
pub mod Steps
pub mod Words
pub mod Gates
pub mod Whole
pub mod Generated
