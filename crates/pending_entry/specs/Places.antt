pub mod Row
pub mod View
