pub mod Depths
pub mod Scripts
pub mod Verdict
pub mod Cutting
pub mod Reading
