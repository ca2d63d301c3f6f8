pub mod Pick
pub mod Digits
pub mod Lists
pub mod Places
pub mod Laws
