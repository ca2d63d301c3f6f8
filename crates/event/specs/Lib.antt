pub mod Memory
pub mod Begun
pub mod Comes
pub mod Stays
pub mod Places
pub mod Laws
