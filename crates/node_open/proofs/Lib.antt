pub mod PaceLemmas
pub mod JournalLemmas
pub mod StandingLemmas
pub mod MadeLemmas
pub mod CallLemmas
pub mod KeptLemmas
pub mod ReadyLemmas
