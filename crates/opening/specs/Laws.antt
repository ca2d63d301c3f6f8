pub mod Checks
pub mod Refused
pub mod Opened
pub mod Routed
pub mod Same
