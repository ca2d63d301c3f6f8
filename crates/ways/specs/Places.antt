pub mod Stays
pub mod Next
