pub mod Facts
pub mod Patterns
pub mod Shown
pub mod Sightings
