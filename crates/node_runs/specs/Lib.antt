pub mod Running
pub mod Keeping
pub mod Writing
pub mod Counting
