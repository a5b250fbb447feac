pub mod Reading
pub mod Openings
pub mod Text
pub mod Places
pub mod Fields
