pub mod Faces
pub mod Comes
pub mod Closing
