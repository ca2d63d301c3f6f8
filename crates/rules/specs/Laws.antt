pub mod Compute
pub mod Cases
