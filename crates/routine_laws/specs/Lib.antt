pub mod Contents
pub mod Rules
pub mod Accepted
pub mod Laws
