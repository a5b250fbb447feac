mod Verdicts
pub mod EndsLemmas
