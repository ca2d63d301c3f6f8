pub mod Asked
pub mod Beside
pub mod Sized
pub mod Way
