pub mod Name
pub mod Order
pub mod Fingerprint
pub mod Places
pub mod Laws
