pub mod ReportLemmas
pub mod EventLemmas
pub mod RunLemmas
pub mod WrittenLemmas
pub mod KeptLemmas
pub mod CountingLemmas
