pub mod Due
pub mod Same
pub mod Reason
pub mod Held
pub mod Parts
