pub mod Fronts
pub mod ReadingLemmas
pub mod FieldLemmas
pub mod KnownLemmas
