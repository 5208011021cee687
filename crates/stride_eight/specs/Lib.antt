pub mod Strided
pub mod inner
pub mod claims
