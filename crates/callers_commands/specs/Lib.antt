pub mod Folders
pub mod Scripts
pub mod Refusals
pub mod Reports
