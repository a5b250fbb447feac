pub mod Cause
pub mod World
pub mod Effect
pub mod State
pub mod Run
pub mod Report
