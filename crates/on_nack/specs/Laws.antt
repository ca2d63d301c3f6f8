pub mod Known
pub mod Peers
pub mod Nacks
pub mod Turns
pub mod Goes
pub mod Same
