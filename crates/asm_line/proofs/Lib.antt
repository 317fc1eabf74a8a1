mod Examples
pub mod Cut
pub mod Trim
pub mod Digits
pub mod Colons
pub mod Texts
pub mod Range
pub mod Parts
pub mod Written
pub mod ReadBack
pub mod Operands
pub mod Forms
