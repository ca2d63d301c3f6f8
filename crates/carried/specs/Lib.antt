pub mod Calls
pub mod Carried
pub mod Laws
