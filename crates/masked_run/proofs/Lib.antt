pub mod TermLaws
pub mod FormLaws
pub mod BranchLaws
pub mod RunLaws
mod TryRun
