pub mod Bare
pub mod Heard
pub mod Name
pub mod Shape
pub mod View
