pub mod ExitLemmas
pub mod InOrderLemmas
pub mod CalleeLemmas
pub mod ExtentLemmas
pub mod CalledLemmas
pub mod ExpandLemmas
pub mod LiveLemmas
pub mod TargetLemmas
