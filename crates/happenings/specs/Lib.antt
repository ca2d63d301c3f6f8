pub mod Noted
pub mod Laws
