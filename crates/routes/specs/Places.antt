pub mod View
pub mod Hop
pub mod Longest
pub mod Parts
pub mod Stays
