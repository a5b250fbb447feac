pub mod Events
pub mod Flight
pub mod Waiting
pub mod Shared
pub mod Wires
pub mod Sending
pub mod Radio
