pub mod Homomorphism
pub mod Positive
pub mod Support
pub mod claims
