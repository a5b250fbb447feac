pub mod Naming
pub mod Line
pub mod Print
