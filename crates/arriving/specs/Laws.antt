pub mod Found
pub mod Arrives
