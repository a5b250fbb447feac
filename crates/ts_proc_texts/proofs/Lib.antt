pub mod StackLemmas
pub mod HidingLemmas
pub mod ProgressLemmas
pub mod TokenLemmas
pub mod CallLemmas
pub mod TextLemmas
pub mod FewLemmas
pub mod ReadingLemmas
