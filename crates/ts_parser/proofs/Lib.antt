pub mod AllPlaces
pub mod DeepLemmas
pub mod OwnPlaces
pub mod ParseLemmas
pub mod ReadingLemmas
pub mod ScriptLemmas
pub mod VerdictLemmas
