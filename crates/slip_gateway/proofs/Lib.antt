pub mod StreamLemmas
pub mod FedLemmas
mod EndLemmas
mod PieceLemmas
