pub mod ArgsLemmas
pub mod BlockLemmas
pub mod FailureLemmas
pub mod ListLemmas
