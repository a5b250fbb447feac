pub mod Parts
pub mod Compiled
