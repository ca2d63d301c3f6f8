pub mod Ages
pub mod Lowest
pub mod Satisfies
pub mod Closes
pub mod Asked
pub mod Lent
pub mod Places
pub mod Laws
