pub mod Appending
pub mod SnapshotEnds
