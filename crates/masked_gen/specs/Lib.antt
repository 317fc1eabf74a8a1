pub mod Draws
pub mod Code
pub mod Generator
pub mod Chain
