pub mod ConflictLemmas
pub mod ClaimLemmas
pub mod CountLemmas
pub mod LockLemmas
pub mod GrantLemmas
