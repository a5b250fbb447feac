pub mod SplitLemmas
mod SpellLemmas
pub mod NumberLemmas
pub mod PayloadLemmas
pub mod StepLemmas
pub mod LineLemmas
pub mod NodeLemmas
mod ReadingLemmas
pub mod LeadingLemmas
pub mod WorldLemmas
