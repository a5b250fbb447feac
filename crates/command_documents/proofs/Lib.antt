pub mod MachineLemmas
pub mod OwedLemmas
pub mod ReadsLemmas
pub mod StreamLemmas
pub mod FrameAnswers
mod FrameLines
