pub mod View
pub mod Machines
pub mod Start
pub mod Inside
pub mod Journal
pub mod Calls
