pub mod MachineLemmas
pub mod OperandLemmas
pub mod StepLemmas
