pub mod Part
pub mod Header
pub mod Find
