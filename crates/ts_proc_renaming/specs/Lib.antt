pub mod Renaming
pub mod Hidden
