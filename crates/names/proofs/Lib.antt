pub mod UniqueComponent
pub mod UniqueFingerprint
pub mod UniqueOrder
