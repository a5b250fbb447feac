pub mod Steps
pub mod Listings
pub mod Examples
