pub mod View
pub mod Parts
pub mod Division
pub mod Broken
pub mod Laws
