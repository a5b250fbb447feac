pub mod PlaceLemmas
pub mod NameLemmas
pub mod PartLemmas
pub mod FaultLemmas
