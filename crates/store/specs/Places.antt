pub mod View
pub mod Look
pub mod Parts
pub mod Put
pub mod Stays
