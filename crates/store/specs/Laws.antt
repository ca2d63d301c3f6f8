pub mod Hits
pub mod Look
pub mod Put
pub mod Stays
