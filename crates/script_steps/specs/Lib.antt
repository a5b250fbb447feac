pub mod Lines
pub mod Words
pub mod Script
pub mod Steps
pub mod NodeScript
pub mod NodeReader
pub mod World
