pub mod View
pub mod Room
pub mod Stays
pub mod Parts
