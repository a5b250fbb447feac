pub mod WorldScript
pub mod WorldWords
pub mod WorldLines
pub mod Draft
pub mod Made
pub mod Source
pub mod Sound
