pub mod AuditLemmas
pub mod FoldLemmas
pub mod ImageLemmas
pub mod SameLoops
pub mod EndLemmas
pub mod ShownLemmas
