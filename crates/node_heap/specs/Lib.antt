pub mod Blocks
pub mod Heap
pub mod Changes
