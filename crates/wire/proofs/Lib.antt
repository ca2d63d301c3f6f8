pub mod UniqueRead
pub mod UniqueWrite
pub mod UniqueVerdict
