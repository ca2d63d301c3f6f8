pub mod Write
pub mod Place
