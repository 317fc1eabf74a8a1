mod TryValues
pub mod EachLaws
pub mod ValueLaws
pub mod MarkLaws
pub mod Ranges
pub mod WordLaws
pub mod KeptLaws
