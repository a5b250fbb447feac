mod ListingLemmas
mod RunLemmas
mod StepLemmas
mod VerifyLemmas
mod LockLemmas
