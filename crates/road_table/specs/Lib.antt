pub mod Table
pub mod inner
pub mod claims
