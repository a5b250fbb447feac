pub mod State
pub mod Meaning
pub mod Uses
pub mod Translation
pub mod Laws
