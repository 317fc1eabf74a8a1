pub mod Counts
pub mod Booting
pub mod Taking
pub mod Finding
pub mod BoardLists
