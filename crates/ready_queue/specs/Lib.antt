pub mod Bodies
pub mod Admitted
pub mod Gives
pub mod Tasks
pub mod HasRoom
pub mod ReadyView
pub mod BoardLists
pub mod Laws
