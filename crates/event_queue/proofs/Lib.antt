pub mod MarkLemmas
pub mod LinkLemmas
pub mod WheelLemmas
pub mod CancelLemmas
pub mod AgendaLemmas
pub mod PlanLemmas
pub mod QueueLemmas
