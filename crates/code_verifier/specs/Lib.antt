pub mod Faults
pub mod Flows
pub mod Marks
pub mod Pass
pub mod Placed
pub mod Slots
pub mod Verified
