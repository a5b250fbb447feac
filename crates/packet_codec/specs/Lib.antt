pub mod Packet
pub mod Bytes
pub mod Reading
