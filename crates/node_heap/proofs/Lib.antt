pub mod BlockLemmas
pub mod HeapLemmas
pub mod TakeLemmas
