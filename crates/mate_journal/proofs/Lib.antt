pub mod OneRun
pub mod JournalLemmas
pub mod OpenLemmas
