pub mod Ways
pub mod Places
pub mod Laws
