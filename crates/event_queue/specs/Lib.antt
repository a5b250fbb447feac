pub mod Links
pub mod Group
pub mod Marks
pub mod Wheel
pub mod Agenda
pub mod Plan
pub mod View
