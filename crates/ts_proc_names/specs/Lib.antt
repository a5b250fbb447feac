pub mod Places
pub mod NameFaults
pub mod Heads
pub mod Passing
pub mod Numbers
pub mod Named
