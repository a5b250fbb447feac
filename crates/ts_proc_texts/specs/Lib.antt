pub mod Hidings
pub mod Rest
pub mod Size
pub mod Reading
