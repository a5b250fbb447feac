pub mod Versions
pub mod Waiting
