pub mod Fields
pub mod Intervals
pub mod Timer
