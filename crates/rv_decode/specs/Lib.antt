pub mod Mnemonics
pub mod Text
