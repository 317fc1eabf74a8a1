pub mod Texts
pub mod AloneReport
pub mod AsmListing
pub mod Listing
pub mod Explanations
pub mod Report
pub mod VerdictText
pub mod VerdictTwoText
