pub mod OneReport
pub mod Ending
pub mod Begins
