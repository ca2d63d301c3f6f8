pub mod Types
pub mod Orders
pub mod Table
pub mod Walk
pub mod Places
pub mod Laws
