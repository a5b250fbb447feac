pub mod SizeLemmas
pub mod SlotsLemmas
pub mod PlacedLemmas
pub mod MarkLemmas
pub mod PassLemmas
