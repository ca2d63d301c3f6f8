pub mod Bridge
pub mod Hop
pub mod Longest
pub mod Setting
