pub mod Order
pub mod Stage
pub mod SeatView
pub mod Rule
pub mod Plays
pub mod Passes
