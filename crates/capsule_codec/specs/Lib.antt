pub mod Image
pub mod Reading
pub mod Fragments
pub mod HexText
