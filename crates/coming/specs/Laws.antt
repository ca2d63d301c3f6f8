pub mod Scope
pub mod Guard
pub mod Goes
pub mod Found
