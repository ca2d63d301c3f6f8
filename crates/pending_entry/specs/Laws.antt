pub mod Write
pub mod Change
pub mod Bridge
