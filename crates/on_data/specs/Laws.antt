pub mod Only
pub mod Brings
pub mod Data
pub mod Same
