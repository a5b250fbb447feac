pub mod Records
pub mod Recording
pub mod Writing
pub mod Counting
