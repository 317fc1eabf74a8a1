pub mod Registers
pub mod LinkedWords
