pub mod Bare
pub mod Meaning
pub mod Well
pub mod Places
pub mod Laws
