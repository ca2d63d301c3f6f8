pub mod Some
pub mod Pick
pub mod Loop
pub mod Rows
pub mod Tab
pub mod Digits
pub mod Writes
