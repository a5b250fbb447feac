pub mod TableTextLemmas
pub mod LockLineLemmas
mod PrintingLemmas
