pub mod BesideWords
pub mod Following
pub mod Asking
pub mod Giving
pub mod TakeAnswer
pub mod Asks
