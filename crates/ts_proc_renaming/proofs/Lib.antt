pub mod RenamingLemmas
pub mod WrittenLemmas
pub mod NothingLemmas
