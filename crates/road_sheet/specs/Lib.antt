pub mod Rows
pub mod Sheet
pub mod claims
pub mod inner
