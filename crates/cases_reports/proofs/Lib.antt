pub mod IdleLemmas
