pub mod Row
pub mod Room
pub mod Same
pub mod Handle
pub mod Held
pub mod Parts
pub mod Stays
