pub mod Steps
pub mod Reading
pub mod inner
pub mod claims
