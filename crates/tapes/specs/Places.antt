pub mod Event
pub mod Walk
