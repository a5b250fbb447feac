pub mod Texts
pub mod SameText
pub mod Completed
pub mod Installing
pub mod CompiledText
pub mod ExpansionText
pub mod NodeInstalls
pub mod Reading
