pub mod LatchName
