pub mod Operands
pub mod Lines
pub mod Front
pub mod Found
pub mod Walk
pub mod Sections
pub mod Makes
pub mod Whole
