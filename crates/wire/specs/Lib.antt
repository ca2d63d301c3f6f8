pub mod Number
pub mod Element
pub mod Verdict
pub mod Write
pub mod Bytes
pub mod Places
pub mod Laws
