pub mod Class
pub mod Face
pub mod Each
pub mod Least
pub mod Lookup
pub mod Place
pub mod Slot
pub mod Use
