pub mod Put
pub mod One
pub mod Copies
pub mod Refusal
pub mod Packing
pub mod Owed
pub mod Same
