mod RowLemmas
mod LineLemmas
pub mod VersionLemmas
