pub mod Answers
pub mod Bare
pub mod Printed
pub mod Scanner
pub mod Spans
