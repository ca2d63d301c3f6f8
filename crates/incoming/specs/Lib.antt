pub mod Incoming
pub mod Laws
