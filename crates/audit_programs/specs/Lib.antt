pub mod Naming
pub mod Trials
pub mod Kept
pub mod Settled
pub mod Images
pub mod Ready
