pub mod View
pub mod Stays
