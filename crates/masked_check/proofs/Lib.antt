pub mod Exclusive
pub mod FormLaws
pub mod Steps
pub mod Cut
pub mod Whole
pub mod Rule
pub mod Tells
