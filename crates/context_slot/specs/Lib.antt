pub mod Output
pub mod FitsTask
pub mod Fresh
pub mod DataBank
pub mod Laws
