pub mod NamingLemmas
pub mod PrintLemmas
