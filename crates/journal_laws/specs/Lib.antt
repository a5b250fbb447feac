pub mod Growth
pub mod Apart
pub mod Progress
pub mod Waiting
pub mod ReadingOrder
pub mod InRange
