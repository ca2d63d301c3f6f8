pub mod Written
pub mod BareBack
pub mod InterestBack
pub mod NackBack
pub mod Size
pub mod Stored
