pub mod Turns
pub mod Laws
