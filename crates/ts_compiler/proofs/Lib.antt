pub mod PartLemmas
pub mod ExtentLemmas
pub mod TreeLemmas
