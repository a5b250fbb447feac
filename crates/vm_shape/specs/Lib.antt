pub mod Names
pub mod Limits
pub mod Contexts
pub mod Shapes
pub mod Whole
pub mod Bounds
pub mod Keys
pub mod Rules
