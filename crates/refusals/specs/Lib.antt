pub mod Reason
pub mod Answer
pub mod Tests
pub mod Conditions
pub mod claims
