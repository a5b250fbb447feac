pub mod Stream
pub mod Fed
pub mod Pieces
