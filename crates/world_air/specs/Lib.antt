pub mod Air
pub mod Changes
pub mod Starting
pub mod Calls
pub mod Counts
