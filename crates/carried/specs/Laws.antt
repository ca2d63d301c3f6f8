pub mod Rows
pub mod Carried
