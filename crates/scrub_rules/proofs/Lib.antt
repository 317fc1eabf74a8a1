-- Lists whose items are written one by one.
pub mod Filled
-- Words of which one breaks a rule, and the first rule that is broken.
pub mod BrokenWords
pub mod First
-- Latches of which none is tagged.
pub mod UntaggedLatches
-- At most one answer is right.
pub mod FailingWords
pub mod Exact
-- Two accepted parts with EBREAK between them.
pub mod Joined
