pub mod Rows
pub mod Packet
