pub mod Served
pub mod Noted
pub mod Again
pub mod Anew
pub mod Sought
pub mod Checks
pub mod Same
