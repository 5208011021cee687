pub mod Bytes
pub mod Eliminated
pub mod EliminatedBytes
pub mod inner
pub mod claims
