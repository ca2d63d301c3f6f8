pub mod Found
pub mod Guarded
