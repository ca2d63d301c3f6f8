pub mod Written
pub mod Most
pub mod Back
pub mod Places
pub mod Laws
