pub mod Scripts
pub mod Sources
pub mod Refused
pub mod GrammarSources
pub mod Procedures
pub mod Ends
