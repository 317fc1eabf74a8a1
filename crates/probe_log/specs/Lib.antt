pub mod Counts
pub mod Kept
pub mod Packing
pub mod Reading
pub mod Unpacking
