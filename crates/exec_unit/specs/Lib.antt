pub mod Machine
pub mod Follows
pub mod Operands
pub mod Step
pub mod Running
