pub mod Number
pub mod NumberRound
pub mod NumberCases
