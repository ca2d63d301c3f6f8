pub mod Lent
pub mod Places
