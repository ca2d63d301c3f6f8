pub mod Header
pub mod Name
pub mod Places
pub mod Laws
