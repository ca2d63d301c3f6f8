pub mod Refusals
pub mod Refused
pub mod Laws
