pub mod Coming
pub mod Sound
pub mod SourceWorld
pub mod Promise
pub mod Bound
pub mod Windows
