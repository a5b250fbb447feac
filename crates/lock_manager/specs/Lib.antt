pub mod Conflict
pub mod Claims
pub mod Counts
