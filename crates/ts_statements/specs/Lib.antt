pub mod Simple
pub mod Ending
pub mod Taking
pub mod Blocks
