pub mod Checked
pub mod Expression
pub mod Right
pub mod Statement
pub mod TreeCode
pub mod TreeOf
