pub mod Listing
pub mod Refusals
pub mod Assembly
pub mod Memory
pub mod Places
pub mod Code
pub mod Disassembly
