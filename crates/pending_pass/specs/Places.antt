pub mod Pass
pub mod Works
pub mod Lowering
pub mod Turns
