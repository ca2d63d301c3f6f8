pub mod Begun
pub mod Comes
pub mod Allowed
pub mod Begins
pub mod Same
pub mod Faces
pub mod Rows
