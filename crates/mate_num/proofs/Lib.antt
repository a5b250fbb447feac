pub mod NumberLemmas
pub mod LockLemmas
pub mod ListLemmas
