pub mod Sheet
pub mod Copies
