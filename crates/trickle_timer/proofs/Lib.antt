pub mod StreamLemmas
pub mod IntervalLemmas
