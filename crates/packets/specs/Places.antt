pub mod Bare
pub mod View
