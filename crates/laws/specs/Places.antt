pub mod Loop
pub mod Rows
pub mod Tab
