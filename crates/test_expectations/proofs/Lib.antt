pub mod SightingLemmas
pub mod StepLemmas
