pub mod Tests
pub mod Given
pub mod inner
pub mod claims
