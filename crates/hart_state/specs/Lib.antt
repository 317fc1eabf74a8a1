pub mod PlaceBounds
pub mod Reached
pub mod WriteView
pub mod WriterView
pub mod UserDeed
pub mod PortView
pub mod ReachView
pub mod Asked
