pub mod OneEvent
pub mod OneRun
pub mod SameBrief
pub mod OneReport
pub mod OfScripts
pub mod Rules
pub mod Lists
pub mod OneEach
pub mod OneSeen
pub mod OneStart
pub mod OneTurn
pub mod OneStep
pub mod OneScriptRun
pub mod OneText
mod Fronts
mod TextLemmas
mod NodeFronts
mod WorldFronts
