pub mod Set
pub mod Slots
pub mod Found
pub mod Link
pub mod Places
pub mod Laws
