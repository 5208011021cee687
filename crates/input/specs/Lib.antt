pub mod Reads
pub mod claims
