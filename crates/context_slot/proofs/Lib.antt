pub mod StartWords
pub mod Admitted
