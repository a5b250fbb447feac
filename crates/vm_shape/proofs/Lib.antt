pub mod DescriptionLemmas
pub mod ListLemmas
pub mod NameLemmas
