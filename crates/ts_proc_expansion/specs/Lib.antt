pub mod InOrder
pub mod Expansion
pub mod Extent
pub mod Extents
pub mod Plan
pub mod Live
pub mod Targets
pub mod Answer
