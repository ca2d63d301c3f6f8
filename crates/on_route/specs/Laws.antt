pub mod Prefix
pub mod Faces
pub mod Routes
pub mod Comes
