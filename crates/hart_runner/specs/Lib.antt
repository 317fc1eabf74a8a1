pub mod CoreBoards
pub mod Receipts
pub mod Working
pub mod Turning
pub mod Places
pub mod Rooms
pub mod Remains
pub mod Finishing
