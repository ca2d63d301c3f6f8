pub mod Tape
pub mod Seen
pub mod Places
pub mod Laws
