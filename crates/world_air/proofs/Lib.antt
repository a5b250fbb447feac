pub mod WalkLemmas
pub mod AirLemmas
pub mod ChangeLemmas
pub mod StartLemmas
pub mod CallLemmas
