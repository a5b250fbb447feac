pub mod Audit
pub mod Runs
pub mod Node
pub mod Worlds
pub mod Ends
