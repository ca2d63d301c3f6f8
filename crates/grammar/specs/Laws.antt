pub mod Table
pub mod Walk
pub mod Change
pub mod Fits
pub mod Facts
