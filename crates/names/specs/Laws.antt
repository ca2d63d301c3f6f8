pub mod Name
pub mod Order
pub mod Fingerprint
pub mod Vectors
pub mod Same
