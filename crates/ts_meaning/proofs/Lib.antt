pub mod ArgumentLemmas
pub mod StoreLemmas
