pub mod Calls
pub mod Posting
pub mod Installing
pub mod Pacing
pub mod Arrivals
