pub mod LastLines
pub mod Fits
pub mod Places
pub mod Parts
pub mod Reads
pub mod Steps
pub mod Written
