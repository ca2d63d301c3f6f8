pub mod Pass
pub mod Works
pub mod Asked
pub mod Faces
pub mod Turn
pub mod Lowest
pub mod Same
