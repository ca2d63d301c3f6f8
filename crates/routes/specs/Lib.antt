pub mod Operations
pub mod Lent
pub mod Places
pub mod Laws
