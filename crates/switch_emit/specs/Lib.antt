pub mod Lines
pub mod Linked
