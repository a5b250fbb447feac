pub mod ExpressionLemmas
pub mod StatementLemmas
pub mod LoopLemmas
