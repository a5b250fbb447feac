pub mod Locks
