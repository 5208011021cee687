pub mod Fits
pub mod Places
pub mod Sums
pub mod Above
pub mod Conditions
pub mod Plain
