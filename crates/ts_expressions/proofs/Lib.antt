pub mod ExprLemmas
pub mod FindingLemmas
pub mod OperatorLemmas
pub mod ShorterLemmas
pub mod StoppingLemmas
