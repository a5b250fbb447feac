pub mod Right
pub mod Sources
pub mod ScriptSteps
pub mod WorldPrograms
