pub mod Goes
pub mod Places
pub mod Laws
