pub mod View
pub mod Gives
