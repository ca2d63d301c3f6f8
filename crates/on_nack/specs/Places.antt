pub mod Nacks
pub mod Turns
