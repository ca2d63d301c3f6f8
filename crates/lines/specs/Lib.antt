pub mod Decimal
pub mod Lines
pub mod Places
pub mod Laws
