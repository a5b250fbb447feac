pub mod ContextLemmas
mod SeatLemmas
mod HandlerLemmas
pub mod FitLemmas
pub mod KeepLemmas
pub mod MoveLemmas
pub mod AgreeLemmas
pub mod StartLemmas
pub mod SerialLemmas
pub mod EntryLemmas
pub mod AskLemmas
pub mod QueueLemmas
pub mod WaiterLemmas
pub mod TotalLemmas
pub mod StartingLemmas
pub mod OrderLemmas
pub mod NewLemmas
pub mod PostLemmas
pub mod RoomLemmas
