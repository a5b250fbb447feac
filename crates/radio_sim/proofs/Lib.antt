pub mod WireLemmas
pub mod WaitingLemmas
pub mod RadioLemmas
