pub mod AtEntries
pub mod CountsAddUp
pub mod PackedLogs
pub mod ReadsBack
mod TryPacking
