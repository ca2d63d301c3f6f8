pub mod Held
pub mod Over
pub mod Nonce
pub mod Newest
pub mod Earliest
pub mod Nacks
pub mod Line
pub mod Note
