pub mod Answering
pub mod Pieces
pub mod Finishing
pub mod Handling
pub mod Performing
pub mod Placing
