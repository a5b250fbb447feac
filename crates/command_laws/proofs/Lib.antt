mod OneCommand
mod OneOutput
mod OneNode
mod OneWorld
mod OneAudit
mod OneText
mod OneCall
mod Steady
mod Audited
mod AnswerLemmas
pub mod CheckedLemmas
pub mod CompiledLemmas
pub mod DerivedLemmas
pub mod KindLemmas
pub mod ScriptLemmas
pub mod TextLemmas
pub mod Told
pub mod Programs
pub mod NodeReports
pub mod WorldReports
pub mod ReadBack
