pub mod DataWrite
pub mod Standing
pub mod OwnWrites
pub mod WritesInOrder
pub mod Absent
